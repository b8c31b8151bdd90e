-- What the loops over an order's places and over the numbers 1 to n know; what the library's searches find; the events by their numbers; rows that are filled; the
-- order after a given one.
pub mod Walks
pub mod Counted
pub mod Searches
pub mod Events
pub mod Filled
pub mod Raised
