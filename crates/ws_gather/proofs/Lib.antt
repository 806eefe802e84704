mod Falling
mod Rising
pub mod Members
