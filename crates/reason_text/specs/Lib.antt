-- What the program `reason` prints.
pub mod ReasonText
pub mod CauseText
