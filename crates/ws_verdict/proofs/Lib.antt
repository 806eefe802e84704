pub mod NewVersion
pub mod Bounds
pub mod Pending
pub mod Replies
