pub mod CheckInputs
pub mod CheckLines
pub mod CheckRuns
pub mod Playing
pub mod Runs
