pub mod Fronts
pub mod Jobs
pub mod LookedBack
pub mod Looking
pub mod Texts
