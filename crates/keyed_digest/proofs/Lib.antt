mod Vectors
pub mod Lengths
