pub mod PassBytes
