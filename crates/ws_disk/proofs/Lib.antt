mod Filled
mod GateFile
pub mod Goes
mod Moments
pub mod Parts
mod Pushed
