-- What other crates and the proofs of this one cite.
pub mod RunLaws
pub mod ListLaws
pub mod KeptLaws
pub mod Parts
pub mod Refused
pub mod ByNumbers
pub mod EveryLag
