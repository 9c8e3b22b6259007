-- Lemmas of crates below, for those above.
pub use Rattle.race_history.proofs as race_history
pub use Rattle.race_course.proofs as race_course
pub use Rattle.race_reads.proofs as race_reads
