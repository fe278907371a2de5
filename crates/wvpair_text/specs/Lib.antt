pub mod Limits
pub mod Starred
pub mod Text
