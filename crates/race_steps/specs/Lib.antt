pub mod Asked
pub mod Walking
