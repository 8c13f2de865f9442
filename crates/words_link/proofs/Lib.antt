pub mod Outcomes
pub mod TextReads
