pub use Rattle.legal_race.specs as legal_race
pub mod Idle
pub mod Asks
pub mod Done
