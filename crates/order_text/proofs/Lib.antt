-- How long the line is, that it is put onto a page, and that there is one.
pub mod Lengths
pub mod Lines
pub mod OneText
