pub mod Arrays
pub mod RollArrays
