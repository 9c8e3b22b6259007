pub mod Moments
pub mod Shown
pub mod Settled
pub mod Delivered
