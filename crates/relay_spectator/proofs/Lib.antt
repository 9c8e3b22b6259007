pub mod Changing
pub mod Posting
pub mod Watching
pub mod Feeding
