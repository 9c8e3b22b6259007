pub mod Copies
pub mod Levels
