pub use Rattle.bit_stream.specs as bit_stream
pub use Rattle.pair_steps.specs as pair_steps
pub use Rattle.pair_steps.specs.pair_core as pair_core
pub mod Own
pub mod Course
pub mod Kept
pub mod Conditions
pub mod Past
pub mod Agreement
pub mod Counted
