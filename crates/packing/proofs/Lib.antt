-- What other crates cite.
pub mod InStepLaws
pub mod SizeLaws
pub mod TurnLaws
pub mod PackedLaws
pub mod SetLaws
pub mod LoopLaws
pub mod RefusalLaws
pub mod EntryLaws
