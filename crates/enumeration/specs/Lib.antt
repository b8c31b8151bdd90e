-- Orders as lists of event numbers, the first of them, the one after a given one, and all in turn; and the same computed from which numbers are dependent.
pub mod Orders
pub mod Computed
