-- Which events are dependent, and what document 01 says of orders, matches, counts and stamps under that dependence.
pub mod Dependence
pub mod Order
pub mod Channels
