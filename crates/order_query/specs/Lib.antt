-- What an order query answers, what document 01's yes or no was, and what the query keeps as the events of a log pass.
pub mod Query
pub mod YesOrNo
pub mod Awaiting
