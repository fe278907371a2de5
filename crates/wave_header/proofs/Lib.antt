-- What other crates and the proofs of this one cite.
pub mod AlikeLaws
pub mod WaveLaws
