-- What each answer stands for, what a call makes of a session, what a session and its verdict mean, demand 3, what an event that fits no slot leaves as it was, and what stays as it was under another limit of threads.
pub mod Answers
pub mod Model
pub mod Meaning
pub mod History
pub mod NoFit
pub mod Limits
