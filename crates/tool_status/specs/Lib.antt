pub mod Status
pub mod Telling
pub mod Streams
pub mod Told
