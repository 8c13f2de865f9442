pub mod SurveySoFar
pub mod TokenSoFar
