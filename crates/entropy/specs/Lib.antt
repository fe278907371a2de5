pub mod Medians
pub mod Entropy
pub mod Sets
pub mod Seed
pub mod Silent
pub mod Reach
