pub mod ActionLines
pub mod Added
pub mod Again
pub mod Agreeing
pub mod Comparing
pub mod RunTexts
pub mod Written
