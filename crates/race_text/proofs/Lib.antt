pub mod Each
mod Counted
mod Finding
mod Listed
