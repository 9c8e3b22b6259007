pub use Rattle.race_history.specs as race_history
pub use Rattle.race_course.specs as race_course
pub use Rattle.race_reads.specs as race_reads
pub use Rattle.race_steps.specs as race_steps
pub use Rattle.race_text.specs as race_text
pub mod Legal
pub mod Text
