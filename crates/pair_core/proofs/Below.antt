-- Lemmas of crates below, for those above.
pub use Rattle.conn_packing.proofs as conn_packing
pub use Rattle.conn_packing.proofs.Below.stream_manager.Below.ghost_masks as ghost_masks
