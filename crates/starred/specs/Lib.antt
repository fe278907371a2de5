pub mod Row
pub mod Starred
