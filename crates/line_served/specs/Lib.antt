-- Series of all offsets of a mask. Assumes nothing: these are definitions.
pub mod Residues
pub mod Serving
