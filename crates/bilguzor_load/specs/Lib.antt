-- A load in numbers.
pub mod LoadNumbers
