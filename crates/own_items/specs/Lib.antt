pub use Rattle.match_engine.specs.match_laws as match_laws
pub use Rattle.match_engine.specs as match_engine
pub use Rattle.match_engine.specs.client_seat as client_seat
pub mod Items
pub mod Source
