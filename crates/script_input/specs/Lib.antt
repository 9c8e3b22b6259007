pub mod Outcome
pub mod Reading
pub mod Said
pub mod Limits
