pub mod Strides
pub mod Words
