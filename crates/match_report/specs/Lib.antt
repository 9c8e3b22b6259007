pub mod Drafts
pub mod Groups
pub mod Replays
pub mod Text
