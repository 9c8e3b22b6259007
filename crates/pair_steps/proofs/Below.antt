-- Lemmas of crates below, for those above.
pub use Rattle.pair_core.proofs.Below.conn_packing as conn_packing
pub use Rattle.pair_core.proofs.Below.ghost_masks as ghost_masks
pub use Rattle.pair_core.proofs as pair_core
