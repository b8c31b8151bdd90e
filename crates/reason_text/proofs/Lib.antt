-- What the program prints is the text of the reason, and a page holds all of it.
pub mod Reasoning
