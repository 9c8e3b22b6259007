pub mod Numbers
pub mod Datagrams
pub mod Writing
pub mod Reading
pub mod Ends
pub mod BitPlaces
pub mod MovesAsNumbers
