pub mod Grids
pub mod Lines
