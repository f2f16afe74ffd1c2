pub mod Grammar
pub mod Heads
pub mod Inputs
pub mod Judging
pub mod Outputs
pub mod Prefixes
pub mod Readings
pub mod Settled
