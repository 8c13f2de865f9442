pub mod Held
pub mod Lent
pub mod Memory
pub mod Model
pub mod Numbered
pub mod Pieces
