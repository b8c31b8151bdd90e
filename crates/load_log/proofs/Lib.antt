-- Laws of loads: their events are within all limits, they are accepted and as the rule says; what the answer to writing one tells; the calls that write it.
pub mod Events
pub mod Load
pub mod Answers
pub mod Examples
mod Calls
