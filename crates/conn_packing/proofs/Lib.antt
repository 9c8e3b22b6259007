pub mod Below
pub mod Lists
pub mod Absorbed
pub mod Scoped
pub mod Asked
pub mod ReadValues
pub mod Planned
pub mod Sent
