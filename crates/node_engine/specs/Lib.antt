pub mod Blank
pub mod Greets
pub mod Rules
pub mod State
pub mod Tally
