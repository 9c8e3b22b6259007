pub use Rattle.demo_view.specs as demo_view
pub mod Replaying
pub mod Walking
pub mod Writing
pub mod Cuts
