-- Laws that several proofs cite.
-- Assumes nothing.
pub mod Lent
pub mod Sounds
pub mod Changes
pub mod Reopens
pub mod Joined
pub mod Pieces
pub mod Contracts
