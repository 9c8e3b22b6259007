pub use Rattle.world_scope.specs as world_scope
pub mod Scans
pub mod Changes
pub mod Marks
pub mod StandsFor
pub mod Examples
