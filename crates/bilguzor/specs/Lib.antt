pub mod Numbers
pub mod Parts
pub mod Sessions
pub mod History
