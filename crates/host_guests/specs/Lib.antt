pub mod Keys
pub mod Passing
pub mod Guests
pub mod Entrance
pub mod Numbers
