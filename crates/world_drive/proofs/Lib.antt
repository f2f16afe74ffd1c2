pub mod Drills
pub mod LawfulRuns
