-- Laws that several proofs cite.
-- Assumes nothing.
pub mod Rising
pub mod Names
