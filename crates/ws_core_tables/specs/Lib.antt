pub mod Allowed
pub mod Births
pub mod Committing
pub mod Numbers
pub mod Rows
pub mod Stands
pub mod Besides
pub mod Passing
