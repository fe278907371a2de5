-- What is shown of both entries.
pub mod Theorems
pub mod Cases
