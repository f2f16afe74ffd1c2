pub mod Kept
pub mod Least
pub mod Ordered
pub mod Picks
pub mod Scores
