pub mod Slots
pub mod Keys
pub mod Limits
pub mod Range
pub mod Effects
pub mod Updated
pub mod Places
pub mod Refusals
