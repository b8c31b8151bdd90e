-- The laws of specs/, in the order in which they are built.
pub mod Waiting
pub mod OldAnswers
