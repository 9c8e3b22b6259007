pub mod WordBytes
pub mod Cutting
pub mod Showing
pub mod Saying
pub mod Counting
pub mod Honesty
pub mod Looking
pub mod Settling
