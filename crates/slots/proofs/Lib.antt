-- What other crates and the proofs of this one cite.
pub mod SlotLaws
pub mod FillLaws
pub mod CallLaws
