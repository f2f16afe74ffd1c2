pub mod Cleaned
pub mod Hashing
pub mod Places
