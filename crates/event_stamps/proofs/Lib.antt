-- The pass that keeps stamps.
pub mod Stamping
