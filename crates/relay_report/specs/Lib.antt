pub use Rattle.match_engine.specs as match_engine
pub mod Met
pub mod Report
pub mod Laws
