-- What the arguments of a program are.
pub mod Numerals
