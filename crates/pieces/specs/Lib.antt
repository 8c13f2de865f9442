pub mod Numbered
pub mod Written
