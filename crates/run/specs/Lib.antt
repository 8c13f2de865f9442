pub mod Calls
pub mod Writing
