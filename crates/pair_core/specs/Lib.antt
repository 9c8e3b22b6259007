pub use Rattle.conn_packing.specs.stream_manager as stream_manager
pub use Rattle.conn_packing.specs.stream_manager.ghost_masks as ghost_masks
pub use Rattle.event_manager.specs as event_manager
pub use Rattle.conn_packing.specs as conn_packing
pub mod History
pub mod Conditions
pub mod Answers
pub mod Flat
pub mod Keeping
pub mod Stands
pub mod Calls
