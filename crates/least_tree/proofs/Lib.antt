pub mod KeyOrder
pub mod Lasts
pub mod Over
pub mod Raising
pub mod Rooms
pub mod Roots
pub mod Sums
