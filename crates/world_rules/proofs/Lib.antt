pub mod Drawn
pub mod Taker
pub mod Ranging
pub mod Identities
pub mod KindWords
pub mod Peopled
