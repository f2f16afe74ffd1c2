pub mod Edits
pub mod Firsts
pub mod Numbers
pub mod Spots
pub mod Splits
pub mod Points
pub mod Joins
pub mod Runs
