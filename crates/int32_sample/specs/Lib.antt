pub mod Sample
pub mod Setting
