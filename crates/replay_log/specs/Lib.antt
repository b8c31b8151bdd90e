-- What the replay call gives, and what a replay log shows.
pub mod Replay
pub mod Shows
