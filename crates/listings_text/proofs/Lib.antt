pub mod FirstLine
pub mod Widths
pub mod Watching
pub mod Lined
