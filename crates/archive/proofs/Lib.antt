-- What other crates cite.
pub mod BlockLaws
pub mod FaultLaws
pub mod CheckLaws
pub mod AlteredLaws
pub mod ByteLaws
pub mod PartLaws
pub mod RightLaws
pub mod WalkLaws
pub mod FileLaws
pub mod StreamLaws
pub mod ArchivedLaws
pub mod BegunLaws
pub mod OnlyLaws
pub mod PlaceLaws
pub mod ListingLaws
pub mod SoundLaws
