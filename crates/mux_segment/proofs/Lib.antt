pub mod Headers
pub mod Cuts
pub mod Takes
pub mod Places
pub mod Streams
pub mod Feeds
pub mod Pieces
pub mod Laws
pub mod Grammars
pub mod Frames
pub mod Orders
pub mod Keeps
mod PackedLists
