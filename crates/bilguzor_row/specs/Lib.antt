-- A row of sessions in parts, in numbers.
pub mod Rows
