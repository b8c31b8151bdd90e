-- The laws of specs/, in the order in which they are built.

-- lists, and the numbers of events
pub mod Lists
pub mod Rows
pub mod Holds
pub mod Runs
-- swaps, what comes before what, and the orders reached
pub mod Swaps
pub mod Groups
pub mod Before
pub mod Orders
pub mod GoodTuples
-- the same of a list of events
pub mod Numbers
pub mod EventOrders
pub mod Matches
-- counts, computed by a plain search
pub mod Search
pub mod Counts
-- the greatest good tuple of each list of slots, kept up as events arrive
pub mod Greatest
pub mod Masks
pub mod Arrivals
pub mod Verdict
-- the first example, chosen slot by slot
pub mod FirstChoice
pub mod First
-- why there is no match
pub mod Reasons
-- stamps, and the clocks that compute them
pub mod Tallies
pub mod Stamps
pub mod Clocks
pub mod Channels
-- the first example in one pass
pub mod FirstScan
pub mod FirstArrivals
