pub mod Counting
pub mod Keyed
pub mod Passing
pub mod Stepping
pub mod SameRows
