pub mod Answers
pub mod Linking
pub mod Places
pub mod Stock
pub mod Worked
