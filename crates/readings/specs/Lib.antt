pub mod Reading
pub mod Costs
pub mod Refused
pub mod Standing
