pub mod Numbers
pub mod Draws
pub mod Header
pub mod Lines
pub mod Made
pub mod Adding
