pub mod Windows
pub mod PacketFacts
pub mod Meters
