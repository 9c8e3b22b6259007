pub mod Heard
pub mod Ends
pub mod Rounds
