pub mod Counting
pub mod Dropping
pub mod Freed
pub mod LastPort
pub mod LinkedBlock
pub mod Starts
pub mod Ways
