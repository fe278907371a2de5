pub mod Onward
pub mod Steps
