pub mod Early
pub mod Fitting
pub mod Lowering
pub mod Names
pub mod Ranks
pub mod Shelving
pub mod Verdict
