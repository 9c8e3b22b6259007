pub use Rattle.relay_report.specs as relay_report
pub mod Node
pub mod Running
pub mod Order
