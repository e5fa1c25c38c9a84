-- What is known of a line of a table file. Assumes nothing: these are definitions.
pub mod Parts
