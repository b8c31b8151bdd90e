-- Searches: each move of the choice, and an event that arrives.
pub mod Filling
pub mod Arriving
