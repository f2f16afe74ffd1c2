pub mod Judging
pub mod Inputs
pub mod Differing
pub mod Meant
mod Ways
mod Stopping
