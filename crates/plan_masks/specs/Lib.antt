-- The offsets of an assignment file as masks. Assumes nothing: these are definitions.
pub mod Masks
