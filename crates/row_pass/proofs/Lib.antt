pub mod Filling
pub mod Passing
