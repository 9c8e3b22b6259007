pub mod Nearest
pub mod Gaps
pub mod Specs
pub mod Limits
pub mod Agreeing
