pub use Rattle.tn_types.specs as tn_types
pub use Rattle.quantised_fields.specs as quantised_fields
pub use Rattle.wire_format.specs as wire_format
pub use Rattle.ghost_client.specs as ghost_client
pub use Rattle.stream_manager.specs as stream_manager
pub mod Viewing
pub mod Stands
pub mod Calls
pub mod Keeping
pub mod Laws
