-- What other crates cite.
pub mod OverlayLaws
