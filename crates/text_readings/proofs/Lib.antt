pub mod Tokens
pub mod Verdicts
pub mod Readings
