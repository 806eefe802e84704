pub mod Following
pub mod Holding
pub mod Past
pub mod Replacing
mod Rooms
pub mod Log
pub mod Going
pub mod SameRooms
pub mod Swept
pub mod AllKept
pub mod Fewer
pub mod Freed
pub mod GoneLeases
pub mod Turning
pub mod Walking
pub mod GivingBack
pub mod Expiring
