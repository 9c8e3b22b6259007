pub mod Following
pub mod Clocking
pub mod View
