pub mod Numbered
mod Worked
