pub mod ActionLaws
pub mod AddressLaws
pub mod Apart
pub mod Binds
pub mod Cutting
pub mod Digits
pub mod EventLines
pub mod GroupLaws
pub mod GroupLists
pub mod Groups
pub mod HeadLaws
pub mod HexPieces
mod InTurn
pub mod Ips
pub mod LineLaws
pub mod Lists
pub mod Numerals
pub mod Octets
pub mod PrintedEvents
mod Pushed
pub mod Places
pub mod Printed
pub mod ReadEvents
pub mod Reading
pub mod SettingLaws
pub mod SpacedWords
pub mod Spelled
pub mod Spelling
