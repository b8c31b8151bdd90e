pub mod Events
pub mod SlotsIn
