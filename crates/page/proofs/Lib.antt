-- Laws of a page's text: what is put onto it, how long it is, and what a buffer then has of it.
pub mod Onto
pub mod Decimal
pub mod Lengths
pub mod PutIn
