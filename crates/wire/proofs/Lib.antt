-- What is proved of big-endian fields beside the functions.
-- Assumes nothing.
pub mod Laws
