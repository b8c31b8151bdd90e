pub mod EventByEvent
pub mod Batches
