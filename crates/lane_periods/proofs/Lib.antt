pub mod Numbers
pub mod Owed
