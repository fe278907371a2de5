-- What other crates and the proofs of this one cite.
pub mod AskedLaws
pub mod ClearLaws
pub mod WrongLaws
pub mod GoodLaws
