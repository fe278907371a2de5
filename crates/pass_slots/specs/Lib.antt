pub mod PassSlots
