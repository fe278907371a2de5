-- What the proofs of this crate cite.
pub mod StepLaws
pub mod LoadLaws
pub mod WalkLaws
pub mod ChunkLaws
