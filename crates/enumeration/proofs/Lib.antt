-- Laws of orders as lists of numbers.
pub mod Tests
pub mod Successor
pub mod OrderTest
pub mod Enumeration
pub mod OrderLists
