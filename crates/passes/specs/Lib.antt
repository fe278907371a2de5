pub mod Terms
pub mod Step
pub mod Run
pub mod Making
