pub mod Lines
pub mod Between
pub mod Keeping
pub mod Telling
pub mod Standing
pub mod Shapes
pub mod Laws
