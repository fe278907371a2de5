pub mod Sound
pub mod Heard
