pub mod Sending
pub mod Accepting
pub mod InOrder
pub mod Said
