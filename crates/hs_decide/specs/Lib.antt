pub mod Agreement
pub mod Answers
pub mod Law
