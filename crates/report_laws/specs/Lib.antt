pub use Rattle.match_laws.specs as match_laws
pub mod Shown
pub mod Moves
pub mod Honest
pub mod Looking
pub mod Settled
pub mod Examples
pub mod Promises
