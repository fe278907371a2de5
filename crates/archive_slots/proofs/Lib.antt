-- What the proofs of this crate cite.
pub mod WriteSlotLaws
pub mod ReadSlotLaws
