-- The laws behind the calls for C. Assumes nothing.
pub mod Telling
pub mod OneFace
