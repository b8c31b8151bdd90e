-- What a run said, as text, is the listing; and a page has room for it. Which heights print as they did before Note 8.
pub mod SlotLines
pub mod Judgement
pub mod Lengths
pub mod Halves
