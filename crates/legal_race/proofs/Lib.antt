pub mod Below
pub mod Places
