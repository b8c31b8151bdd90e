-- Texts as bytes: words and numbers, the lines that several programs print, and a page of them put in a lent buffer.
pub mod Text
pub mod Lines
pub mod Page
