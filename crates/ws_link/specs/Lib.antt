pub mod Pieces
pub mod Links
pub mod Dials
pub mod Memory
pub mod MemoryClocks
pub mod MemoryLinks
pub mod MemoryDials
pub mod StatusCode
