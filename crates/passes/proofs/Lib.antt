pub mod Noting
pub mod Passes
