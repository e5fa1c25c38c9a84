-- How the code's numbers stand for the definition's. Assumes nothing.
pub mod Code
