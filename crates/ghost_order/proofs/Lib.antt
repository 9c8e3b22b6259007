pub mod Moved
pub mod Rises
pub mod Sets
pub mod Places
pub mod Taken
pub mod Pushed
pub mod Keyed
pub mod Passed
