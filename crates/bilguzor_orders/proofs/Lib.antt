-- What a call gives, in numbers; and all orders, each exactly once, by the answers' numbers.
pub mod Numbers
pub mod EveryAnswer
