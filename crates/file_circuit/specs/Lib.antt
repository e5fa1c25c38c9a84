-- Tests on a circuit record. Assumes nothing: these are definitions.
pub mod Numbers
