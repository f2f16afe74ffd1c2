pub mod Drill
pub mod DrillCourse
pub mod Lawful
