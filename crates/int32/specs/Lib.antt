pub mod Info
pub mod Reassemble
pub mod Deconstruct
pub mod Wide
