pub mod ByteLists
pub mod ListWords
pub mod StepRanges
