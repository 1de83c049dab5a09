-- The definitions of this crate's own contracts; those of 01 are model's.
-- Assumes nothing.
pub mod Permanent
