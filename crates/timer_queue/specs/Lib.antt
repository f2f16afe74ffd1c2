pub mod Kept
pub mod Keys
pub mod Order
pub mod Queue
pub mod Rows
pub mod Timers
pub mod Trees
