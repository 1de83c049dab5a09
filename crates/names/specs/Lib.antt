-- The definitions of this crate's contracts; those of the paper are model's.
-- Assumes nothing.
pub mod NameWords
pub mod Hashes
