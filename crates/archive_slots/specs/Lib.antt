pub mod ArchiveSlots
