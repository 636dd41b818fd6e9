pub mod Follow
pub mod Listing
pub mod Pointing
