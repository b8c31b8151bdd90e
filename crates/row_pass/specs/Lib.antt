-- A log gone through once for a row of sessions: what is read of it, how it ends, and what its events make of the first of them.
pub mod Passing
