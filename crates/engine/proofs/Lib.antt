pub mod Looping
pub mod Sizing
pub mod Turning
