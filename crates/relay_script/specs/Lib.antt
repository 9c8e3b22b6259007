pub use Rattle.match_script.specs as match_script
pub mod Lines
pub mod Asked
pub mod Whole
pub mod Ranges
