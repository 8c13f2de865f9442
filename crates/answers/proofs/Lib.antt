pub mod Fits
pub mod Runs
pub mod Slots
pub mod Worked
