-- Lemmas of crates below, for those above.
pub use Rattle.own_lists.proofs as own_lists
pub use Rattle.own_lists.proofs.Below.pair_core as pair_core
