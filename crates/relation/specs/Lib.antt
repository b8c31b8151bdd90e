-- How two events of a log stand to each other, and what a comparison of two stamped ones makes of their numbers.
pub mod Relation
pub mod Compared
