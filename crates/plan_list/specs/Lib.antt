-- The places of a list. Assumes nothing.
pub mod Places
