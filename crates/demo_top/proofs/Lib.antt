pub mod Client
pub mod Ends
