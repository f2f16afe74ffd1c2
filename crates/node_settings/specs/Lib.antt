pub mod Config
pub mod Host
pub mod Reading
pub mod Topology
