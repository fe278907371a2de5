pub mod TextPut
pub mod Decimal
pub mod Column
