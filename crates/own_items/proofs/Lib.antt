pub mod Below
pub mod MadeItems
pub mod Stepping
