pub mod Exchange
pub mod Laws
pub mod Acknowledged
pub mod HeldBlocks
pub mod LooseEvents
pub mod Verdicts
pub mod Refusals
