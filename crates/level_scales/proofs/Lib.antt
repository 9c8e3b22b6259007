pub mod Rounded
pub mod Wrapped
