pub mod Format
pub mod NextEntry
pub mod Readback
