-- The theorems, and worked cases.
pub mod Theorems
pub mod ReadingLaws
pub mod Cases
