-- The laws behind the telling of an answer. Assumes nothing.
pub mod Telling
