-- What other crates and the proofs of this one cite.
pub mod Cases
pub mod ReadingLaws
pub mod ShortLaws
pub mod StarredLaws
pub mod TextLaws
