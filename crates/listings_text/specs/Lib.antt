-- What the program `listings` prints: a line for each pattern file, by the log; the lines by what is kept of each file; and what is kept of the files.
pub mod Listings
pub mod Lines
pub mod Watched
