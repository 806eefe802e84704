pub mod Judged
pub mod Wishes
