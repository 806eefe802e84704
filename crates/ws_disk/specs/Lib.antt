pub mod Crash
pub mod Gated
pub mod Memory
pub mod Record
pub mod Torn
