-- Lemmas of crates below, for those above.
pub use Rattle.pair_core.proofs.Below.conn_packing as conn_packing
pub use Rattle.pair_core.proofs as pair_core
