pub mod Protocol
pub mod Numbers
