pub mod Below
pub mod Making
pub mod Posts
pub mod Packs
pub mod Brought
pub mod Copies
