pub mod TellingLemmas
pub mod ToldLemmas
