pub mod Gate
pub mod Law
pub mod Prune
