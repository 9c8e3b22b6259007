pub use Rattle.pair_steps.specs as pair_steps
pub mod Agreement
