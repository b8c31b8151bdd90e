-- The replay order by the stamps of the slots' events, and the passes over a log that write it.
pub mod Lengths
pub mod ByStamps
pub mod Reader
pub mod Copying
pub mod Groups
