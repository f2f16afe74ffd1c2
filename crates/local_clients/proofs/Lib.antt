pub mod Answerable
pub mod Streams
pub mod Lists
pub mod Ids
pub mod PassedOver
pub mod Keeps
pub mod Laws
mod Behaviour
pub mod Readings
pub mod Led
mod Refuted
pub mod Happening
