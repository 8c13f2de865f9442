pub mod Cells
pub mod Flat
pub mod Linked
pub mod Listing
pub mod Word
pub mod Worked
