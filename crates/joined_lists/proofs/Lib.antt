-- What other crates and the proofs of this one cite.
pub mod FoldLaws
pub mod AcceptLaws
pub mod Together
pub mod Apart
pub mod ByNumbers
