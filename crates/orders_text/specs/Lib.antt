-- The lines that the program `orders` prints.
pub mod OrdersText
