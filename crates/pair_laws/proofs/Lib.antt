pub mod Fits
pub mod Posted
pub mod Sections
mod Packets
pub mod Good
mod GhostItems
mod Heads
pub mod Carried
mod Windows
mod Grown
pub mod VerdictLaw
mod Reached
mod Honest
pub mod Joined
mod JoinedUp
mod Spelled
pub mod Delivered
pub mod RefusalLaw
pub mod InOrder
mod Acknowledged
pub mod HeldBlocks
pub mod ReceivedBlocks
pub mod Subsequences
pub mod LooseItems
pub mod LooseEvents
