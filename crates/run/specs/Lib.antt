-- What a run's answer says.
pub mod Answers
