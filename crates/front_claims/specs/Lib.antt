pub mod Dropping
pub mod Lists
pub mod Cutting
