-- The laws behind allocation. Assumes nothing.
pub mod Allotting
