-- What is proved of a memory reply's parts beside the functions.
-- Assumes nothing.
pub mod Parts
