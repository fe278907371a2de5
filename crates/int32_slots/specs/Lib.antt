pub mod Int32Slots
