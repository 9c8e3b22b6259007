pub use Rattle.ghost_client.specs as ghost_client
pub mod Sent
pub mod Ends
pub mod Copies
pub mod Blocks
pub mod Recovery
