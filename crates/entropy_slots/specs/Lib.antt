pub mod EntropySlots
