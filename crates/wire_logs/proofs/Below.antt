-- Lemmas of crates below, for those above.
pub use Rattle.event_logs.proofs as event_logs
pub use Rattle.ghost_logs.proofs as ghost_logs
