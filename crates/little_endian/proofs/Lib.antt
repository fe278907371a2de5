-- What other crates cite.
pub mod LittleEndianLaws
pub mod StoreLaws
