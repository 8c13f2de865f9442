pub mod Chained
pub mod Splicing
