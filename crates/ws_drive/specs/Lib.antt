pub mod AccountText
pub mod World
pub mod Standing
pub mod Output
pub mod Stop
pub mod Steps
pub mod Runs
