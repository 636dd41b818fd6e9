pub mod Bound
pub mod Changes
pub mod Curve
pub mod Places
pub mod Points
