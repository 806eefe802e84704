mod Asking
mod Mapped
mod Older
mod Turned
pub mod Chosen
pub mod Logged
pub mod Restored
