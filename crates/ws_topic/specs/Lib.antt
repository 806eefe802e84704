pub mod ByTopic
pub mod Restored
pub mod Rows
pub mod Stored
pub mod Stands
pub mod Besides
