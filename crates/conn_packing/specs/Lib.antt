pub use Rattle.stream_manager.specs as stream_manager
pub mod Said
pub mod Packs
pub mod Reads
pub mod Asking
pub mod Noted
pub mod Calls
