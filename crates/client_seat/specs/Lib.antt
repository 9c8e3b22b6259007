pub use Rattle.own_lists.specs.pair_core as pair_core
pub use Rattle.own_lists.specs as own_lists
pub mod Told
pub mod Answering
pub mod Stands
