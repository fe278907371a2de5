-- What the proof of `copy` cites.
pub mod ListLaws
