pub mod Parts
pub mod Fading
pub mod Laws
