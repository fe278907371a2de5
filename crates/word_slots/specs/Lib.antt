pub mod WordSlots
