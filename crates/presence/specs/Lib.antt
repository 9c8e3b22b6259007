pub mod Presence
pub mod Numbers
