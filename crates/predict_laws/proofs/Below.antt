-- Lemmas of crates below, for those above.
pub use Rattle.predict_lines.proofs as predict_lines
