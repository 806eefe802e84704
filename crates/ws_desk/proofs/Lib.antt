pub mod Later
pub mod Committed
pub mod Quiet
pub mod Does
pub mod Serials
