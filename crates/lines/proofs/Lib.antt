-- Laws that several proofs cite.
-- Assumes nothing.
mod Counted
mod Numbers
mod Bytes
mod Puts
mod Search
