-- What the proofs of this crate cite.
mod TestLaws
