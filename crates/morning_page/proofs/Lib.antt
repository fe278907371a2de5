-- What other crates and the proofs of this one cite.
pub mod EntryLaws
pub mod SumLaws
pub mod Theorems
