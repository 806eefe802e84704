pub mod Keyed
pub mod Listed
pub mod Pushes
pub mod Roomed
pub mod Tried
