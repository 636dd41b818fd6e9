pub mod Lists
pub mod Numbers
pub mod Texts
pub mod Few
pub mod Cells
pub mod Columns
pub mod Shared
