-- The steps of the generator, and the event in the bits of a state.
pub mod Rule
