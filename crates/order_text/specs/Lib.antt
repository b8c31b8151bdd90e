-- The text of an order query's answer.
pub mod OrderText
