pub mod GrowLaws
pub mod Extending
pub mod Histories
pub mod Writing
