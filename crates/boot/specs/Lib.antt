-- What the calls from C hand back. Assumes nothing: these are definitions.
pub mod Face
