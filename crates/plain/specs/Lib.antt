-- Events as numbers, and which of them are dependent.
pub mod Numbers
pub mod Chains
