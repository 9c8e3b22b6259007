pub mod Rates
pub mod Pacing
pub mod Laws
pub mod View
pub mod Waiting
