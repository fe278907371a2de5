pub mod Exp2Table
pub mod LogWord
pub mod Reach
