pub mod EntriesStand
pub mod Format
