pub mod Counted
pub mod Exact
pub mod Pairs
pub mod Places
pub mod Readback
pub mod Same
pub mod Worked
pub mod Written
