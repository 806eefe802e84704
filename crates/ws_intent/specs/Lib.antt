pub mod Index
pub mod Rising
pub mod Rows
pub mod Indexed
pub mod Stands
