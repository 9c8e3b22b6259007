pub mod PaceFacts
pub mod Waits
pub mod Bounds
