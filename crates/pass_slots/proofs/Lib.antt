-- What the proofs of the functions and other crates cite.
pub mod PassSlotLaws
pub mod CallLaws
pub mod AcceptedCalls
