mod Covered
mod Kept
mod Lawful
pub mod Within
