pub mod Keeps
pub mod Seat
pub mod Traces
