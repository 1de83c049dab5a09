-- Laws that several proofs cite.
-- Assumes nothing.
pub mod Bytes
pub mod Zeros
pub mod Names
