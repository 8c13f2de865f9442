pub mod AnyReady
pub mod FinishedSoFar
pub mod Turning
