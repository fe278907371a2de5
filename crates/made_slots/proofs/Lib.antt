-- What the proofs of the functions cite.
pub mod LaidLaws
pub mod MakePassLaws
