pub mod Standing
pub mod Offsets
pub mod Predicting
pub mod Laws
