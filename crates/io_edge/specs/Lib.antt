pub mod Causes
pub mod Files
pub mod Lines
pub mod Memory
pub mod Pending
pub mod Reading
pub mod Shelves
pub mod Told
