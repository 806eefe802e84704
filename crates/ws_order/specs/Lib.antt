pub mod Orders
pub mod NumberOrder
pub mod NextTries
pub mod NextTryOrder
pub mod Trees
pub mod TreeFalls
