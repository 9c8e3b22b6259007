pub mod Words
pub mod Verdicts
pub mod Horizons
pub mod Least
pub mod Fates
