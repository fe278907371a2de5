pub mod Counts
pub mod Residuals
pub mod Word
pub mod View
