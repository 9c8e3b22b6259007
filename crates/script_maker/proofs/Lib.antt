pub mod Drawing
pub mod Rounds
pub mod Spawned
pub mod Fitting
pub mod Ranges
