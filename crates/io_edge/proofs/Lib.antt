pub mod CauseLemmas
mod FirstLine
pub mod FrontLemmas
pub mod InputLemmas
pub mod LineLemmas
pub mod LinesRead
mod LogWalks
pub mod ReadingLemmas
pub mod ToldLemmas
