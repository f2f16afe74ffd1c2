pub mod Again
pub mod Compare
pub mod RunText
pub mod Written
