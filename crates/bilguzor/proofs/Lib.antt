pub mod Events
pub mod Handing
pub mod Whole
