pub mod Link
pub mod Rows
