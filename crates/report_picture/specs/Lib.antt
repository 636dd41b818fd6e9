pub mod Drawing
pub mod Reading
pub mod Texts
pub mod Totals
