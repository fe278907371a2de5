-- What the proofs of this crate cite.
pub mod HeadLaws
pub mod PartLaws
pub mod BlocksLaws
pub mod WriteLaws
