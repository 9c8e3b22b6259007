pub mod Still
pub mod Quiet
pub mod Asking
pub mod Reading
pub mod Doing
pub mod Calls
pub mod Whole
