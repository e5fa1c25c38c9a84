-- What allocation comes to. Assumes nothing: these are definitions.
pub mod Allot
