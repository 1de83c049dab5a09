-- The definitions of this crate's own contracts; those of the paper are model's.
-- Assumes nothing.
pub mod Hashes
