pub use Rattle.pair_core.specs as pair_core
pub use Rattle.pair_core.specs.conn_packing as conn_packing
pub mod StepLists
pub mod Kept
pub mod Bringing
pub mod Limits
