mod Journals
pub mod LoopSums
pub mod Pieces
pub mod Puts
mod RowSteps
mod RowsRead
pub mod StepsTold
mod Sums
mod Worked
