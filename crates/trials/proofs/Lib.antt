pub mod Search
pub mod EveryTrial
