-- What is proved of the table and of a message's parts beside the functions.
-- Assumes nothing.
pub mod Rule
pub mod Parts
