-- Laws that several proofs cite.
-- Assumes nothing.
pub mod Rules
pub mod Halves
