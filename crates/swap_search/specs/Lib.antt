-- Counts of what test programs saw.
pub mod Counts
