-- What making a table comes to. Assumes nothing: these are definitions.
pub mod Make
