pub mod Below
mod Cutting
pub mod Counts
pub mod Replaying
pub mod Showing
mod Noting
