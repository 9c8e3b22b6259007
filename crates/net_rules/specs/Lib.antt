pub mod Turns
pub mod Faults
pub mod Hellos
pub mod Places
pub mod Runs
pub mod Rests
pub mod Numbers
