pub mod Logs
pub mod InOrder
