pub mod Ends
pub mod Hears
pub mod Polls
