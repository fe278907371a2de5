pub mod JoinedSlots
