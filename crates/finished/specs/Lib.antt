pub mod AnyReady
pub mod ShowsPlan
