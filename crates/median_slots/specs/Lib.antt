pub mod MedianSlots
