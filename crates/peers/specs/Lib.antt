pub mod Changes
pub mod Rules
pub mod State
