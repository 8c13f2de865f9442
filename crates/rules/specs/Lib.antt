pub mod Frames
pub mod Leftmost
pub mod Rewriting
pub mod Running
