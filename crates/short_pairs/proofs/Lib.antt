-- What the proof of the loop cites.
pub mod PairLaws
