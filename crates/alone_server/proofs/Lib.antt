pub mod Below
pub mod Numbers
pub mod Holding
pub mod Sending
pub mod Packing
pub mod Mapped
pub mod Feeding
pub mod Telling
