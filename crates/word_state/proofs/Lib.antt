-- What the crates above cite.
pub mod BitsLaws
pub mod DueLaws
pub mod FlagLaws
pub mod StateLaws
