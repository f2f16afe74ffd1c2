pub mod Entries
pub mod Placing
