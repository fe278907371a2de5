-- What the proofs of this crate cite.
pub mod Int32SlotLaws
