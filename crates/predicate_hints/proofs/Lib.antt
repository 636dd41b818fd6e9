pub mod Boundaries
pub mod Readings
pub mod Those
