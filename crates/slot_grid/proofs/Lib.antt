-- The laws behind filling the grid. Assumes nothing.
mod Filling
