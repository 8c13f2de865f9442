pub mod Demanded
pub mod Slots
pub mod Table
pub mod Terms
