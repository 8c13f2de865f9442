pub mod Putting
pub mod Tests
