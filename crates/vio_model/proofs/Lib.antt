-- What is proved of the definitions.
-- Assumes nothing.
pub mod Versions
pub mod Words
pub mod Rules
pub mod Kept
pub mod TwoEnds
pub mod Linked
pub mod Setup
