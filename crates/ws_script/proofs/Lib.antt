pub mod Known
pub mod Parting
pub mod Lines
pub mod Reading
pub mod Happenings
