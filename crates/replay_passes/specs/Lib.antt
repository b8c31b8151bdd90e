-- What the passes that write a replay copy.
pub mod Copies
