-- What the proofs of several functions use, and what other crates cite.
pub mod OneLaws
pub mod PlaceLaws
