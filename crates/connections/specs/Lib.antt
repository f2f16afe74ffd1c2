pub mod Kept
pub mod Linked
pub mod Ordered
pub mod Owed
pub mod Standing
pub mod Steps
pub mod Talks
pub mod Timed
