pub mod Bits
pub mod State
pub mod Log
pub mod Stands
pub mod Fates
pub mod Carriers
pub mod View
pub mod Said
