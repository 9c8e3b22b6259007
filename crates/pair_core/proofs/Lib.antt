pub mod Below
pub mod Keeping
pub mod Brought
pub mod Flat
mod Posting
pub mod Packed
pub mod LegalLogs
