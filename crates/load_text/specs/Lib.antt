-- What the program `load` makes and prints.
pub mod LoadText
