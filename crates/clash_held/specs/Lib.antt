-- What two circuits hold. Assumes nothing: these are definitions.
pub mod Held
