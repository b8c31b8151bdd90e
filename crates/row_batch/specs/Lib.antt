-- A batch of events for each session of a row.
pub mod Batch
