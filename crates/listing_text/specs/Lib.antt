-- What the listing of a pattern and a log is: its lines, and the text of what a run said.
pub mod Text
pub mod Listing
pub mod OutcomeText
