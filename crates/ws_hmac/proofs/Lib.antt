pub mod Comparison
pub mod Digits
