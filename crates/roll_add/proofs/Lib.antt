pub mod Counting
pub mod Entering
pub mod InUse
pub mod Weighed
