pub mod IdPlaces
pub mod IndexFacts
pub mod LastAt
pub mod Lives
pub mod PlacedOrder
pub mod PlacedPlaces
pub mod StateFacts
pub mod Turns
