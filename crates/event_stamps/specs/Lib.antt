-- The stamps of given events.
pub mod EventStamps
