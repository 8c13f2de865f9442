pub mod Gaps
pub mod Moving
pub mod Rewriting
pub mod Ruling
pub mod Turns
