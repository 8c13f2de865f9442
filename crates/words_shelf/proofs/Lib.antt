pub mod Noting
pub mod Reading
pub mod Seeking
pub mod StandsFor
