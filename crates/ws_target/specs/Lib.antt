pub mod Address
pub mod Keys
pub mod Requests
pub mod Answers
