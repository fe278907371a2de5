pub mod WaveSlots
