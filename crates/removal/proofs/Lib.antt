-- Laws of a removal's work step.
-- Assumes nothing.
pub mod Laws
