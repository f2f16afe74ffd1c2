pub mod Array
pub mod Address
pub mod Message
pub mod Reading
pub mod Writing
pub mod First
pub mod Law
