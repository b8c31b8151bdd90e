-- Which patterns can be looked for, and what a search through a whole log gives.
pub mod Patterns
pub mod Searching
