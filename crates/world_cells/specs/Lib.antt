pub mod Rising
pub mod Grid
pub mod Lines
pub mod Cells
pub mod NumberSet
