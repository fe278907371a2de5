-- What other crates cite.
pub mod FieldTrips
pub mod WordTrips
pub mod ReadTrips
pub mod DemandLaws
pub mod PayloadLaws
pub mod SilentLaws
pub mod ReachLaws
