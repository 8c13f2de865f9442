pub mod Passing
pub mod Telling
pub mod Tidying
pub mod TokenEnd
pub mod Walking
