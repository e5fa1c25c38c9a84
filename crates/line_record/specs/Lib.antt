-- The record of a line. Assumes nothing: these are definitions.
pub mod Record
