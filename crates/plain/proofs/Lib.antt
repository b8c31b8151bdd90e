-- What a search from the last place back finds.
pub mod Below
