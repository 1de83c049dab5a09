-- The specifications of this crate.
-- Assumes nothing.
pub mod Progress
