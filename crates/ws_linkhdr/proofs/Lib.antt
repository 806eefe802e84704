pub mod Bytes
pub mod Rests
pub mod Params
pub mod Sound
pub mod Steps
pub mod Complete
pub mod Places
pub mod Written
