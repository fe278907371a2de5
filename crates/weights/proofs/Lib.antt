-- What the proofs of the functions and other crates cite.
pub mod PredictLaws
pub mod SignLaws
pub mod UpdateLaws
pub mod ClipLaws
