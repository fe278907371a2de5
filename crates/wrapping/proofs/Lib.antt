-- What the proofs of the functions and other crates cite.
pub mod WrapLaws
pub mod RangeLaws
pub mod ReadBack
pub mod StdWrap
