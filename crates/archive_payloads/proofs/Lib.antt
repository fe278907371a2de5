-- What other crates and the proofs of this one cite.
pub mod CopyLaws
pub mod KeptLaws
pub mod LaidLaws
