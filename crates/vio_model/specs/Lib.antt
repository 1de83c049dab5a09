-- The version handshake of ticket 10, in its order: the words of an end, the versions held, soundness, the rules, the calls, two ends.
-- Assumes nothing.
pub mod Layout
pub mod Versions
pub mod Sound
pub mod Rules
pub mod Calls
pub mod TwoEnds
pub mod Step
