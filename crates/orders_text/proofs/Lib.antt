-- Laws of the lines of orders.
pub mod Lines
pub mod Orders
