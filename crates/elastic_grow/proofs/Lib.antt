pub mod Parents
pub mod Kept
pub mod OneStore
pub mod Sums
pub mod Growth
