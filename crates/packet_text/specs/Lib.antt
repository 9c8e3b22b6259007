pub use Rattle.packet_parts.specs as packet_parts
pub mod Names
pub mod Table
pub mod Brief
