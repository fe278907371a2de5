-- What other crates cite.
pub mod NumberLaws
pub mod GuardLaws
pub mod ListLaws
pub mod TestLaws
