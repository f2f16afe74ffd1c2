pub mod Kept
pub mod Leaves
pub mod Numbers
pub mod Order
