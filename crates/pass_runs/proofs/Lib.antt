-- What the proof of the function cites.
pub mod PassLaws
