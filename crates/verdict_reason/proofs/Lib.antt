-- How stamps tell what stands in a slot's way, what a search that stops gives, and what follows of a reason.
pub mod ByStamps
pub mod Stopping
pub mod EveryReason
