pub mod Keeping
pub mod Drained
pub mod Lines
pub mod Holding
