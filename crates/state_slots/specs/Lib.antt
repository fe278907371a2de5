pub mod StateSlots
