mod Follows
pub mod LastLinks
pub mod LinkedTurns
pub mod Reading
mod Regraced
mod Retimed
pub mod TalkFeeds
pub mod TalkFinds
pub mod OrderTurns
pub mod Stepping
pub mod TalkPairs
pub mod TalkTurns
pub mod TimedTurns
