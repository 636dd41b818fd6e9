pub mod Children
pub mod Stores
pub mod Growth
