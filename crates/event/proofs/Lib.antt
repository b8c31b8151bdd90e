pub mod Tests
pub mod InRange
pub mod OneSlot
pub mod Updated
pub mod Places
pub mod Filled
pub mod SlotNumbers
pub mod Refusals
