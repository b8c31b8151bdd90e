-- The laws of specs/, in the order in which they are built.
pub mod RowLaws
pub mod ClockLaws
pub mod Entries
pub mod Channels
pub mod Highest
pub mod History
pub mod Later
