pub mod Cleaned
pub mod Placed
pub mod Places
pub mod RootAsk
pub mod Sorted
