pub mod Passings
pub mod Standing
pub mod Opening
