-- Lemmas of crates below, for those above.
pub use Rattle.own_items.proofs.Below as own_items
