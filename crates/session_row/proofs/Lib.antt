pub mod Model
pub mod Walk
pub mod EveryRow
