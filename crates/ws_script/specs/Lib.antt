pub mod Bytes
pub mod Script
pub mod Words
pub mod Moves
pub mod Reading
