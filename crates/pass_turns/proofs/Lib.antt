-- What the proofs of the loops cite.
pub mod TurnLaws
pub mod FrameLaws
