pub mod CutPieces
pub mod Standing
pub mod Freely
pub mod InOrder
pub mod Honest
pub mod Costs
