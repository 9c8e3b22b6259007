pub mod Again
pub mod Bringing
pub mod Listed
pub mod Telling
pub mod Ticking
