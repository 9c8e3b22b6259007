pub mod Loaded
pub mod Numbers
