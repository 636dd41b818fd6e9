pub mod Places
pub mod Loops
pub mod Chained
mod Worked
