pub mod State
pub mod View
