pub mod Packing
pub mod View
pub mod Entry
