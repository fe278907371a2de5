pub mod CutSlots
