pub mod Below
pub mod Journals
pub mod Due
pub mod Carriers
