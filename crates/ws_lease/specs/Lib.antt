pub mod Index
pub mod Table
pub mod Indexed
pub mod Stands
pub mod Unexpired
