-- What other crates and the proofs of this one cite.
pub mod Cases
pub mod CountLaws
pub mod LineLaws
pub mod PartLaws
