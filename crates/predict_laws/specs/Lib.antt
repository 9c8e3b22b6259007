pub use Rattle.predict_lines.specs as predict_lines
pub mod Players
pub mod Newest
pub mod Promise
