pub mod Sending
pub mod ProgressWords
pub mod SenderState
pub mod SenderStands
pub mod Holding
pub mod Said
