pub mod Texts
pub mod Writing
pub mod Feeds
pub mod WholeText
