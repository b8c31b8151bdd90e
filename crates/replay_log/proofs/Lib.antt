-- Replay logs show the pattern; the call's answer by what the run said.
pub mod Showing
pub mod Calling
