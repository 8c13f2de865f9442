pub mod Filling
pub mod Judging
pub mod OneEntry
pub mod Reading
