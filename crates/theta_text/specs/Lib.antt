pub mod Kinds
pub mod Front
pub mod Machine
pub mod Views
pub mod Starts
