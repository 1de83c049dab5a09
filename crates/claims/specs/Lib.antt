pub mod Demand3
pub mod Repeats
pub mod Ends
pub mod EveryList
pub mod Kept
pub mod Day
pub mod Encoding
