pub mod Places
pub mod Changes
pub mod Grids
pub mod LineBits
pub mod Between
pub mod Numbers
pub mod Columns
pub mod SetBits
