pub mod Trip
