pub mod Below
pub mod Runs
pub mod Levels
pub mod Sent
