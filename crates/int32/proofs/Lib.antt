-- What other crates and the proofs of this one cite.
pub mod InPlace
pub mod InfoLaws
pub mod ReassembleLaws
pub mod DeconstructLaws
pub mod WideLaws
pub mod Theorems
pub mod Images
pub mod Cases
