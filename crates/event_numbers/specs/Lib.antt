pub mod EventNumbers
pub mod SlotNumbers
