-- The order in which a match is replayed.
pub mod Replay
