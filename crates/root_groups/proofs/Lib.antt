pub mod Apart
pub mod Entries
pub mod FirstGroups
pub mod FirstPlaces
pub mod Listed
pub mod Placing
