pub mod Bits
pub mod Progressing
pub mod Taking
