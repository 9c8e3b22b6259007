-- Lemmas of crates below, for those above.
pub use Rattle.client_seat.proofs as client_seat
pub use Rattle.conn_packing.proofs as conn_packing
pub use Rattle.client_seat.proofs.Below.own_lists as own_lists
