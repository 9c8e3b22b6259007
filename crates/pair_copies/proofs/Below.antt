-- Lemmas of crates below, for those above.
pub use Rattle.pair_laws.proofs as pair_laws
