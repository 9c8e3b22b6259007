pub use Rattle.own_items.specs as own_items
pub mod Periods
pub mod Values
pub mod Telling
pub mod Stands
