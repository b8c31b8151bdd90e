-- The pass of a search, and the patterns that it can look for.
pub mod Running
pub mod Usable
