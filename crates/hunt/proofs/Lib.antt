pub mod Frames
pub mod HuntWalk
pub mod OnePlan
pub mod Scanning
pub mod WaysThrough
pub mod Whereabouts
pub mod Window
