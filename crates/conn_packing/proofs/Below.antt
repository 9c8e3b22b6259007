-- Lemmas of crates below, for those above.
pub use Rattle.stream_manager.proofs as stream_manager
