pub mod Numbered
pub mod Pieces
