pub mod Words
pub mod Datagrams
pub mod Door
pub mod Passing
pub mod Knock
pub mod Laws
pub mod Numbers
