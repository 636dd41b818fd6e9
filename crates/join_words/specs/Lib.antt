pub mod Apart
pub mod Command
pub mod Found
pub mod Requests
pub mod Words
