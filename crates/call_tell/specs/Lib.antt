-- The details of an answer as bytes. Assumes nothing: these are definitions.
pub mod Telling
