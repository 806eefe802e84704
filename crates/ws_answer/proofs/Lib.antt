pub mod Bounds
pub mod Mentions
pub mod Revoking
pub mod Composed
