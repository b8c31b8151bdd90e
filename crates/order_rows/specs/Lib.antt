-- Orders of at most eight events as rows of their numbers.
pub mod Rows
