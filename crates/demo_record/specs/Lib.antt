pub use Rattle.match_engine.specs as match_engine
pub use Rattle.demo_taken.specs as demo_taken
pub mod Recording
pub mod Laws
pub mod Steps
