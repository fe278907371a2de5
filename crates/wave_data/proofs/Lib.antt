-- What other crates and the proofs of this one cite.
pub mod LayLaws
pub mod SampleLaws
pub mod TakeLaws
