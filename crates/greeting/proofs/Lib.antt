pub mod Forms
pub mod Passings
pub mod Standing
pub mod Reading
