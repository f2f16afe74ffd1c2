pub mod Counted
pub mod Moves
pub mod Names
pub mod Protocols
pub mod Shapes
pub mod State
pub mod Use
