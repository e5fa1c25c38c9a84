-- Laws of what is written, for the proofs of the functions and for other crates. Assumes nothing.
pub mod Sizes
pub mod Tables
