pub mod Tagging
pub mod Laws
pub mod Numbers
