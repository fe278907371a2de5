-- What the proof of the call cites.
pub mod EntropySlotLaws
