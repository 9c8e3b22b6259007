pub mod Ranks
pub mod Numbers
