-- What the proofs of this crate cite.
pub mod ClearLaws
pub mod LayLaws
