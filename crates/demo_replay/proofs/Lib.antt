pub mod Walking
pub mod Written
pub mod Cutting
