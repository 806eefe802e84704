pub mod Pasts
pub mod Delays
pub mod Orders
pub mod Filters
pub mod Totals
pub mod Keeping
