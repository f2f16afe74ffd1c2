pub mod Address
pub mod Bounds
pub mod Calls
pub mod Limits
pub mod Number
pub mod Peer
pub mod Shared
pub mod Timer
