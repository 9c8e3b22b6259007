pub mod Smoothing
pub mod Packets
pub mod Window
pub mod Traffic
pub mod View
