pub mod Run
pub mod Slots
pub mod Worked
pub mod WorkedTokens
