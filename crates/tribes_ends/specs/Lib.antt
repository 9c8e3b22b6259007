pub mod Codes
pub mod Making
pub mod Refusals
pub mod Lists
pub mod Sides
pub mod Drawing
pub mod Played
