pub mod Compaction
pub mod Least
pub mod Shortened
pub mod Dropped
