pub mod Counts
pub mod Code
pub mod Refused
pub mod Written
pub mod Gathered
