pub mod Drafts
pub mod Text
pub mod Journal
pub mod Showing
