pub mod Word
pub mod Parts
