pub mod Cut
pub mod Example
