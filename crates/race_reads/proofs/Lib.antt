pub mod Deciding
pub mod Packs
pub mod Rising
pub mod LastReads
pub mod Joining
pub mod ShownPeriods
pub mod ToldPeriods
mod Examples
