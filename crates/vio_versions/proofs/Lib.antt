-- Laws that the proofs of this crate's functions share.
-- Assumes nothing.
pub mod Turns
pub mod Tests
