pub mod Whole
pub mod Step
pub mod Calls
pub mod Leading
pub mod Number
pub mod Naming
