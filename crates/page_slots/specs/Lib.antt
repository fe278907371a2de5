pub mod PageSlots
