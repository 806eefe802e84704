pub mod Finding
pub mod Part
pub mod Rows
pub mod Stands
