pub mod Zeros
pub mod Turns
