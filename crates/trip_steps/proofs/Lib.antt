-- What the proofs of the steps cite.
pub mod StepLaws
