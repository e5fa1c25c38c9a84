-- The assignment that a job writes. Assumes nothing: these are definitions.
pub mod Files
