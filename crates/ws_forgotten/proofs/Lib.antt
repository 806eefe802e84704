pub mod Rows
pub mod OneByOne
pub mod Told
pub mod Shown
pub mod Roomed
pub mod Whole
