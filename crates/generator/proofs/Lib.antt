-- Heights lie within 32 bits.
pub mod Heights
