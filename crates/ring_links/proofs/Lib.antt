mod KnownAtEnds
mod Flushing
mod Worked
