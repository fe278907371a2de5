-- What other crates cite.
pub mod WaveSlotLaws
