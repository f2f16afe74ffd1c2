pub mod DriveEnds
pub mod Drives
