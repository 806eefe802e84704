pub mod Holds
pub mod Once
pub mod Seen
pub mod Commits
