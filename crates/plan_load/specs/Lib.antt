-- What is held of files that were loaded. Assumes nothing: these are definitions.
pub mod Loaded
