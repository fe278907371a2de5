pub mod Joined
pub mod Example
