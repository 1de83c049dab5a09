-- What is proved of the two words beside the functions.
-- Assumes nothing.
pub mod RoundTrip
