pub mod Stands
pub mod Laws
pub mod Fed
pub mod Text
