pub mod Kept
pub mod RowLists
