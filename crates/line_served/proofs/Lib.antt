-- Laws behind the walk that holds all offsets of a mask against lines. Assumes nothing.
pub mod Folding
pub mod Serving
