-- The clocks as lists of numbers, and what they hold of the events that arrived.
pub mod Rows
pub mod Clocks
pub mod Arrivals
