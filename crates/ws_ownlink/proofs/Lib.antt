pub mod Unique
pub mod Fitting
