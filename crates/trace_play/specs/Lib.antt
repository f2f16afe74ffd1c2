pub mod CheckedInputs
pub mod Checking
pub mod Checks
pub mod Playback
pub mod Played
