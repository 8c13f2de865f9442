pub mod CopyLoop
pub mod CopySoFar
pub mod Likes
pub mod Road
pub mod Starting
