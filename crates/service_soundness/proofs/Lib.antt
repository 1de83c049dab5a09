-- Lemmas of this part of soundness.
-- Assumes nothing.
pub mod Rules
