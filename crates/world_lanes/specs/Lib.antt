pub mod Behind
pub mod Storing
pub mod Ticked
pub mod Told
