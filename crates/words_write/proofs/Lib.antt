pub mod WordWritten
pub mod WrittenBefore
pub mod WrittenSoFar
