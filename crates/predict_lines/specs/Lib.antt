pub use Rattle.match_laws.specs as match_laws
pub mod Lines
pub mod Changes
