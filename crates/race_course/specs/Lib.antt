pub use Rattle.own_lists.specs as own_lists
pub mod Messages
pub mod Course
pub mod Examples
