-- What the walks of other crates cite.
pub mod Lending
pub mod Front
