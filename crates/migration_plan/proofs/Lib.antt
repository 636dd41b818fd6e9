pub mod Neighbours
pub mod OneStep
