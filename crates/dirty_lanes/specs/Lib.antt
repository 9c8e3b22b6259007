pub mod Words
pub mod Log
pub mod Views
pub mod Rule
pub mod Named
pub mod Limits
