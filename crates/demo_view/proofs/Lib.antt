pub mod Below
pub mod Refusing
pub mod Alike
pub mod Seen
pub mod Views
pub mod Keeping
