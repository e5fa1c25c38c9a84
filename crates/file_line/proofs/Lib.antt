-- The laws of a line for its callers. Assumes nothing.
pub mod Parts
