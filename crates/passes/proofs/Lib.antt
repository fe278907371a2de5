-- What the proofs of the functions and other crates cite.
pub mod TermLaws
pub mod SeedLaws
pub mod MakingLaws
pub mod StepInverse
pub mod RunInverse
pub mod Unique
pub mod Bounds
pub mod LoopLaws
pub mod ListLaws
pub mod Locals
pub mod SlotLaws
