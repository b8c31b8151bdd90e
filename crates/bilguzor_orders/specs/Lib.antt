-- The orders of a short log in numbers, and all of them in turn.
pub mod OrderNumbers
