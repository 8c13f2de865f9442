pub mod MeasuredSoFar
pub mod Measuring
