-- Laws on numerals, for the proofs of single functions; one answer for each argument; written numbers are read back; examples.
mod Values
mod Reading
pub mod OneAnswer
pub mod ReadBack
pub mod Examples
