-- The last places of events, and what a pass over a log gives.
pub mod LastPlaces
pub mod Passes
