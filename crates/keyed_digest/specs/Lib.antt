pub mod Keyed
pub mod Numbers
