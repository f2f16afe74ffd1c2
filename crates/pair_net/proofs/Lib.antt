pub mod Hears
pub mod Frames
pub mod Spoken
pub mod Verdicts
pub mod Listening
pub mod Meetings
pub mod Crossings
pub mod Runs
mod Rightly
mod Refusals
mod Across
pub mod Reached
pub mod InTurn
pub mod Playing
mod Led
