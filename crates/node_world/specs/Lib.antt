pub mod Law
pub mod Meanings
pub mod Script
pub mod Segments
pub mod Start
pub mod Town
