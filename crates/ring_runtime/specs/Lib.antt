pub mod Seats
pub mod Turns
pub mod Wiring
pub mod Joins
pub mod Bouts
pub mod Endings
pub mod Runs
