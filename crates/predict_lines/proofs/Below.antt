-- Lemmas of crates below, for those above.
pub use Rattle.match_laws.proofs as match_laws
