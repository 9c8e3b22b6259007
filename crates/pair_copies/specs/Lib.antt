pub use Rattle.pair_laws.specs as pair_laws
pub mod Reads
