pub mod Scales
