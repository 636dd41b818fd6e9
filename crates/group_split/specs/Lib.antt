pub mod Sizes
pub mod Parts
pub mod Dealt
pub mod Groups
pub mod Joining
