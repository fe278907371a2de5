pub mod Demand
pub mod Lengths
pub mod Silent
pub mod Reach
