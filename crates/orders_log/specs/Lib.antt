-- The calls that give all orders of a short log.
pub mod OrderCalls
