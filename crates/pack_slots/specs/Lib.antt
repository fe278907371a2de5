pub mod PackSlots
