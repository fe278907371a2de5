-- What other crates and the proofs of this one cite.
pub mod BitLaws
pub mod ReadLaws
pub mod RoundTrip
pub mod LaidLaws
pub mod WriteLaws
pub mod GatheredLaws
pub mod Window
pub mod RegisterLaws
pub mod OnesLaws
pub mod Trip
pub mod CheckedLaws
pub mod Cases
