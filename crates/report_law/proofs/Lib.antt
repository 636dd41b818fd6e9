mod Made
mod Runs
mod Steps
mod Worked
