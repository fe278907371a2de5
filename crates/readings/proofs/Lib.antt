-- What other crates cite.
pub mod WordLaws
pub mod ReadingLaws
pub mod HeldLaws
pub mod StandingLaws
pub mod RefusalLaws
pub mod LocalLaws
pub mod CostLaws
pub mod EveryLaws
pub mod TotalLaws
pub mod WordBounds
