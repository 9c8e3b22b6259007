pub mod Adding
pub mod Rising
pub mod Following
pub mod ScanSteps
mod Configs
