pub use Rattle.kept_pair.specs.pair_core as pair_core
pub use Rattle.kept_pair.specs as kept_pair
pub mod Deciding
pub mod History
pub mod Moves
pub mod Growing
pub mod Examples
