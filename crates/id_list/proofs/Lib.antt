-- Laws that several proofs cite.
-- Assumes nothing.
pub mod Ids
pub mod Hashes
