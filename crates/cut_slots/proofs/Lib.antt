-- What other crates and the proofs of this one cite.
pub mod ShapeLaws
pub mod Theorems
pub mod Refused
