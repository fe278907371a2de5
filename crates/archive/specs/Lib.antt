pub mod Block
pub mod Recording
pub mod Faults
pub mod Listing
pub mod Places
