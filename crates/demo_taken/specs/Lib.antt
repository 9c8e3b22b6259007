pub use Rattle.demo_view.specs as demo_view
pub use Rattle.pair_core.specs as pair_core
pub mod Taken
