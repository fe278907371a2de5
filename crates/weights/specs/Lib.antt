pub mod Weights
pub mod Sign
