pub mod Frames
pub mod Leftmost
pub mod Rewrites
pub mod Runs
pub mod Windows
pub mod Worked
