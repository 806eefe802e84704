pub mod Fewer
mod First
pub mod GoneOver
mod Latest
pub mod Lists
pub mod Needed
mod Once
pub mod Owed
pub mod Part
mod Renewed
pub mod Replaced
mod Rooms
mod WentOver
