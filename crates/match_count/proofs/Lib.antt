pub mod Telling
pub mod Counted
