pub mod State
pub mod Changes
pub mod Outcomes
pub mod Taking
pub mod Calls
pub mod Machine
pub mod Standing
pub mod Beginnings
