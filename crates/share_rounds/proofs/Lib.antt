pub mod Homes
pub mod Steps
pub mod Rules
pub mod Among
