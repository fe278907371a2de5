-- What other crates and the proofs of this one cite.
pub mod KeyLaws
pub mod ChainLaws
pub mod MarkLaws
