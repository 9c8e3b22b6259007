pub mod Watching
pub mod Items
pub mod Beginning
pub mod Laws
pub mod Posts
