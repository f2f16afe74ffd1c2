pub mod Replies
pub mod Temperature
pub mod Watch
pub mod Refusal
pub mod Law
