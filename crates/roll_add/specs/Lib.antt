pub mod Calls
pub mod Entering
