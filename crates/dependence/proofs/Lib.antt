-- Laws of dependence.
pub mod Sameness
pub mod Dependent
pub mod ByChannels
pub mod Acceptance
pub mod Reached
