pub mod Channelling
