pub mod PairLines
pub mod Report
pub mod RowLines
pub mod Summary
pub mod Waves
pub mod Writers
