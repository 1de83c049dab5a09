pub mod Fields
pub mod Forms
pub mod Input
pub mod Outcome
pub mod Output
pub mod Search
