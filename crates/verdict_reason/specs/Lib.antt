-- What the call for a reason gives, and what its steps do.
pub mod Reasons
pub mod Causes
