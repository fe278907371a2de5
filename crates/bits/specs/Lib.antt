pub mod Bits
pub mod Fields
pub mod BitByBit
pub mod Window
pub mod Laid
pub mod Checked
