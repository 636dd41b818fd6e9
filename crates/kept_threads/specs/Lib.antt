pub mod Changes
pub mod Notes
pub mod Gifts
