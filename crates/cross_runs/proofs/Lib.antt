-- What the proofs of the functions cite.
pub mod HeadLaws
pub mod CrossLaws
pub mod SwapLaws
