pub mod Accessed
pub mod Indexed
pub mod Keyed
pub mod Matches
pub mod Evaluated
pub mod Places
pub mod Stands
pub mod Stored
