pub mod Parts
pub mod Info
pub mod Spelling
pub mod Canonical
pub mod Codes
pub mod Reading
pub mod Law
