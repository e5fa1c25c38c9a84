-- The laws behind the record of a line. Assumes nothing.
pub mod Record
