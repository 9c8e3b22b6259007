pub use Rattle.match_engine.specs.match_laws as match_laws
pub mod Counting
pub mod Summary
pub mod Bounds
