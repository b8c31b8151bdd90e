-- The starred bench trials, and what each of them says by the definitions.
pub mod Trials
