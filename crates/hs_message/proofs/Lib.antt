pub mod Loops
pub mod Fronts
pub mod Messages
pub mod Items
pub mod Whole
pub mod Written
