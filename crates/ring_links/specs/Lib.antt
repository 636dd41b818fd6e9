pub mod Rings
pub mod Outlets
