pub mod Below
mod Lists
pub mod Apart
mod Marking
pub mod Periods
mod Standing
mod Sifting
