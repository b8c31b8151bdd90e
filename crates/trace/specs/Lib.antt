-- What document 01 says of orders, matches, counts, the first example and stamps, for any events and any slots;
-- and good tuples, which a table keeps.
pub mod Swaps
pub mod Before
pub mod Match
pub mod First
pub mod Reason
pub mod Stamps
pub mod Tuples
