-- What other crates cite.
pub mod FileLaws
pub mod HeaderLaws
pub mod Cases
