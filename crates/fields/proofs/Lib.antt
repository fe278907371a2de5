-- What other crates and the proofs of this one cite.
pub mod LengthLaws
pub mod CodeLaws
pub mod WindowLaws
pub mod Local
pub mod LocalLaws
pub mod RefusalLaws
pub mod WrittenLaws
pub mod LongLaws
