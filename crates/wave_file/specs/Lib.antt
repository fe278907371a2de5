pub mod File
pub mod Words
