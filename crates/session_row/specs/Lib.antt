-- Note 6: a row of sessions and one event, and a row over a whole list of events.
pub mod Row
pub mod RowHistory
