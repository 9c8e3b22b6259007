pub use Rattle.predict_laws.specs as predict_laws
pub use Rattle.predict_laws.specs.predict_lines as predict_lines
pub mod Beside
