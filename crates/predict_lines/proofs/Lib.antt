pub mod Below
pub mod EndLines
