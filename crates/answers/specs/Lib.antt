pub mod Numbers
pub mod Guard
pub mod Limits
pub mod Lists
