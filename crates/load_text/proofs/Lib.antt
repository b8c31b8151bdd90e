-- How long the line is.
pub mod Lengths
