pub mod Periods
pub mod Views
pub mod Reading
