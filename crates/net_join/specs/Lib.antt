pub mod Joining
pub mod Playing
pub mod Stages
pub mod Points
