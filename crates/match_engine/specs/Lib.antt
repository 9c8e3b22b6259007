pub use Rattle.match_laws.specs as match_laws
pub use Rattle.match_laws.specs.client_seat as client_seat
pub mod Stands
pub mod Values
pub mod Serving
pub mod Match
pub mod Served
pub mod Telling
