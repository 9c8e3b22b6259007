pub mod Taking
pub mod Rule
pub mod Turns
pub mod Limits
