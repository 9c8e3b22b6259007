pub mod Channel
pub mod GatheredBy
pub mod Codes
