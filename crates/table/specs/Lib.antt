-- The sets of slots and where their rows stand, the table as a list of numbers, and what it keeps of the events that arrived.
pub mod Sets
pub mod Table
pub mod Keeps
