-- The laws behind making a table. Assumes nothing.
pub mod Making
