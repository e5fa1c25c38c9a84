-- Laws of files that were loaded. Assumes nothing.
pub mod Offsets
pub mod Loading
