-- Lemmas of crates below, for those above.
pub use Rattle.world_scope.proofs as world_scope
