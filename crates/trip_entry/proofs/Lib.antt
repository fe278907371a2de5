-- What the proof of the entry cites.
pub mod TripLaws
