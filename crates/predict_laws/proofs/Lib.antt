pub mod Below
pub mod Ticks
pub mod Acknowledged
pub mod Known
pub mod Plays
pub mod CaughtUp
