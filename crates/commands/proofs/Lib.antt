pub mod Numbers
pub mod Faults
pub mod Forms
pub mod Rule
