pub mod Interval
pub mod Adaptation
