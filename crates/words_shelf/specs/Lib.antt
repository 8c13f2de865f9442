pub mod Shelf
pub mod Words
