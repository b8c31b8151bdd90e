pub mod Answered
pub mod Described
pub mod Steps
pub mod Demand
pub mod OneAnswer
pub mod NoFit
pub mod Limits
