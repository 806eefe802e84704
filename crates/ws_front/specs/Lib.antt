pub mod Moves
pub mod Rules
pub mod Answers
pub mod Reading
pub mod Connection
pub mod Requesting
pub mod Responding
