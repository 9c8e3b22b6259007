pub mod Bits
pub mod Reading
pub mod Laws
pub mod Writer
pub mod Reader
pub mod Said
pub mod WorldMoves
