-- What a search does with its numbers, and what it holds of the events of a log.
pub mod Search
pub mod Holding
