-- The proofs of the calls for C.
mod Part
