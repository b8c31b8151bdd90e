-- Which event is the last that fits a slot.
pub mod LastFit
