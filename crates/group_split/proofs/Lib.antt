pub mod BinaryDigits
pub mod Drawn
pub mod Chosen
pub mod Parted
pub mod PartRuns
pub mod Together
pub mod Worked
