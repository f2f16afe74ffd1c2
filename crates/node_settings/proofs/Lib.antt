pub mod Accepted
mod Documents
mod Hosts
mod Names
mod Parts
mod Rest
