-- Lemmas of crates below, for those above.
pub use Rattle.event_manager.proofs as event_manager
pub use Rattle.ghost_masks.proofs as ghost_masks
