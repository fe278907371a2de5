-- What the proofs of this crate and the crates above cite.
pub mod ShortLaws
