pub mod Cutting
pub mod Headers
pub mod Bodies
pub mod Alike
pub mod Clients
pub mod Left
