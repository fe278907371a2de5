pub mod Keys
pub mod Chains
