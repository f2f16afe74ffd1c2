pub mod Meaning
pub mod Judgement
pub mod Runs
pub mod LineRead
pub mod UnderWay
pub mod Inputs
pub mod Refusals
