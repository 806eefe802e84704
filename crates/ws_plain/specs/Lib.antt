pub mod Past
pub mod Sought
pub mod Capped
pub mod Alike
pub mod Tallies
pub mod Kept
pub mod Told
pub mod PairFates
