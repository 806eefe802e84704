pub mod Next
pub mod Answered
