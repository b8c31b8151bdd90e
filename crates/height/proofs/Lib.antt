pub mod Halves
pub mod Tenths
pub mod MinusZero
