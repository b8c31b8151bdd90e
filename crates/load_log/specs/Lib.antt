-- The load of a seed and a count.
pub mod Load
