pub mod LowestBit
pub mod RowLists
pub mod RowSteps
pub mod Notes
pub mod RowLaws
pub mod Told
