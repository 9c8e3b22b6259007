pub use Rattle.alone_server.specs as alone_server
pub mod Watches
pub mod Spectators
pub mod Feeding
pub mod Beginning
