-- What is proved of well-formed messages beside the functions.
-- Assumes nothing.
pub mod Rules
