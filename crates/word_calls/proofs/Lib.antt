-- What the proofs of several functions use, and worked cases.
pub mod CallLaws
pub mod Cases
