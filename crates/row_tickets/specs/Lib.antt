pub mod Tickets
pub mod Share
