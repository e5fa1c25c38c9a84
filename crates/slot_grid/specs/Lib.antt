-- The grid of clashes. Assumes nothing: these are definitions.
pub mod Table
