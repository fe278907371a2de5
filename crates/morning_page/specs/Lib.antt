pub mod Entry
pub mod Morning
