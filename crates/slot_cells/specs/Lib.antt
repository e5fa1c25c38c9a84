-- What the search asks about cells. Assumes nothing: these are definitions.
pub mod Cells
