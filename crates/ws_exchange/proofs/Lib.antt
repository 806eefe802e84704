pub mod Told
pub mod Uncut
pub mod Heard
pub mod Turns
