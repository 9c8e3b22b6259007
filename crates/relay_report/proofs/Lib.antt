pub mod Below
pub mod Newly
pub mod Packs
pub mod Lists
