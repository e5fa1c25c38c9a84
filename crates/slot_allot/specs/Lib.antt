-- What is answered about the slots of a plan. Assumes nothing: these are definitions.
pub mod Slots
