-- Laws of the calls that give orders: lists that stand for orders, the calls' answers, all orders, each exactly once, and that the calls come to an end.
pub mod Rows
pub mod Answers
pub mod EveryOrder
pub mod Examples
pub mod Rising
