pub mod Counted
pub mod Places
pub mod Same
pub mod Spans
