pub mod LastReads
pub mod Settling
