-- The replay order: computed, reached by swaps, holding the pattern; and two examples.
pub mod Order
pub mod Examples
