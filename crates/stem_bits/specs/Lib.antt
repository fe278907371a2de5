pub mod History
pub mod Stems
