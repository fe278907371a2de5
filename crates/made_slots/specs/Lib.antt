pub mod MadeSlots
