-- What the crates above cite.
pub mod CountLaws
pub mod LocateLaws
pub mod SignLaws
pub mod ZeroLaws
pub mod AheadLaws
pub mod PutLaws
pub mod WordLaws
