-- The pass that keeps the last event that fits.
pub mod Fitting
