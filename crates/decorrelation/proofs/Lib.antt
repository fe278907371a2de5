-- What the proofs of the functions and other crates cite.
pub mod Answers
pub mod Theorems
