pub mod Command
pub mod Replayed
pub mod Checked
pub mod Lined
pub mod Drilled
pub mod Run
pub mod Laws
