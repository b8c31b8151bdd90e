-- The laws of specs/, in the order in which they are built.
pub mod SetLaws
pub mod RowLaws
pub mod SweepLaws
pub mod BitLaws
pub mod Lanes
pub mod RowHistory
pub mod History
pub mod Start
pub mod Verdict
