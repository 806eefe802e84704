pub mod Known
pub mod Verdicts
pub mod Reading
pub mod Responding
pub mod Requesting
pub mod Serving
pub mod FullLemmas
