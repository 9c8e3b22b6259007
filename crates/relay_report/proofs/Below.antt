-- Lemmas of crates below, for those above.
pub use Rattle.match_engine.proofs as match_engine
pub use Rattle.match_engine.proofs.Below.match_laws as match_laws
